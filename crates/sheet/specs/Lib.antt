-- The device sheet (document 01): device data, and how the sheet gives it. Read from the top, after the rules in `grammar`.
pub mod Device
pub mod Sheet
