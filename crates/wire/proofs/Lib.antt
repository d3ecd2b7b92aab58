-- Laws that belong to no one function, each said once.
pub mod Below
pub mod Lists
pub mod Fields
pub mod Numbers
pub mod Bytes
pub mod Reserved
pub mod Copied
pub mod Typing
pub mod Digits
pub mod Order
pub mod Pins
pub mod Stated
pub mod Unique
pub mod Packed
pub mod Images
pub mod Built
pub mod Branch
