-- Laws that belong to no one function, from the general on: bytes that are stored, that stand in a list, and that are gathered from it (`Stored`,
-- `Stands`, `From`); data that has a sheet (`Keeps`), written and read (`Parts` to `Bytes`); a sheet, read and written (`Records` to `Read`); what is
-- lent, and the refusals (`Lent` to `Outcomes`). The theorems of specs/Again are in `Theorems`, `Examples` are computed, `Contracts` tie them to the source.
pub mod Stored
pub mod Stands
pub mod From
pub mod Keeps
pub mod Parts
pub mod Managers
pub mod Pdos
pub mod Back
pub mod Bytes
pub mod Records
pub mod Cleaned
pub mod Read
pub mod Lent
pub mod Rules
pub mod Conditions
pub mod Range
pub mod Outcomes
pub mod Theorems
pub mod Examples
pub mod Contracts
pub mod Unique
