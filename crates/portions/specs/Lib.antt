-- A sheet that comes in portions (document 02, 1/13): what a call does, and what a list of calls comes to. Read from the top.
pub mod Portions
pub mod Arrival
