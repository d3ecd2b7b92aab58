-- The rules of the device sheet (document 01), as far as bytes alone decide them. Read from the top.
pub mod Length
pub mod Grammar
