-- Laws that belong to no one function.
pub mod Managers
pub mod Kept
pub mod Sound
pub mod Reading
pub mod Contracts
pub mod Unique
