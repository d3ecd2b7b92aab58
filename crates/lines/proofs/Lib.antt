-- Laws that the proofs of the lines share.
pub mod Lines
pub mod Fits
pub mod Unique
