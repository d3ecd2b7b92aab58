-- Laws that belong to no one function.
pub mod Text
pub mod Layouts
pub mod RoundTrip
pub mod Unique
