-- Laws that belong to no one function.
pub mod Length
pub mod Asked
pub mod Fitting
pub mod Walk
pub mod Broken
pub mod Unique
