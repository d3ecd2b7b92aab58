-- Laws that belong to no one function, each said once.
pub mod Taken
pub mod Entry
pub mod Laying
pub mod Turn
pub mod Outputs
pub mod Clearing
pub mod Blocked
pub mod Decided
pub mod Unique
