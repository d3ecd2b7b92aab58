-- The meaning of planning process data (document 01, 'The passes'; document 02, 7/13): a function of device data alone, whatever it was read from. Read from the top.
pub mod Use
pub mod Pairs
pub mod Old
pub mod Start
pub mod Entries
pub mod Pass
pub mod Call
pub mod Handed
