-- `Functions` proves the statement; `Contracts` makes its calls of the functions' own contracts; `Examples`: it isn't empty.
pub mod Functions
pub mod Contracts
pub mod Examples
