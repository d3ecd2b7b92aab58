-- Laws that belong to no one function.
pub mod Bytes
pub mod Filling
pub mod Passing
pub mod Unique
