-- Laws that belong to no one function: the layout both ways, the text's length, one answer to each contract.
pub mod Text
pub mod Layouts
pub mod RoundTrip
pub mod Unique
