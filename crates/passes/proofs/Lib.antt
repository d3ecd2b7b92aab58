-- Laws that belong to no one function.
pub mod Pieces
pub mod Kept
pub mod Cleared
pub mod Lengths
pub mod Once
pub mod Same
pub mod Unique
