-- The text of a plan, line by line.
pub mod Text
