-- Laws that belong to no one function.
pub mod After
pub mod Unique
