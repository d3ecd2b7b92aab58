-- Laws that belong to no one function.
pub mod Front
pub mod Steps
pub mod Whole
pub mod Rest
pub mod Cuts
pub mod Contracts
pub mod Unique
