-- What the private parts of writing the entries promise; what a call leaves stands in `passes`.
pub mod Lay
pub mod Ready
