-- Laws that belong to no one function.
pub mod Part
pub mod Records
pub mod Bits
pub mod Lacking
pub mod Sums
pub mod Unique
