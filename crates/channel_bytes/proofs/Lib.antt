-- Laws that belong to no one function.
pub mod Bytes
pub mod RoundTrip
pub mod Layouts
pub mod Unique
