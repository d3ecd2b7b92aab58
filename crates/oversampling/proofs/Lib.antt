-- Laws that belong to no one function.
pub mod Search
pub mod Filled
pub mod Made
pub mod Unique
