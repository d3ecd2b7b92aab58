-- What counting through the sync managers means; what its code goes by.
pub mod Count
pub mod Found
