-- Entries of one length and the bytes of an area, each law said once over the entry's length.
pub mod Flat
pub mod Entry
pub mod Unique
