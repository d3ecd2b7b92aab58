-- Laws that the report's proofs share.
pub mod Passes
pub mod Fits
pub mod Printed
pub mod Unique
