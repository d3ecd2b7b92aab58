-- Laws that belong to no one function.
pub mod Lies
pub mod Saying
pub mod Unique
