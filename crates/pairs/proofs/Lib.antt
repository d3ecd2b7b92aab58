-- Laws that belong to no one function.
pub mod Backwards
pub mod Unique
