-- A device's own EEPROM dump (document 02, 5/13): its categories, their records, and what reading them gives. Read from the top; `Looked` only mirrors the code.
pub mod Parts
pub mod Categories
pub mod Records
pub mod Dump
pub mod Calls
pub mod Looked
