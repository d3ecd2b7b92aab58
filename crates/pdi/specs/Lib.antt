-- Units, offsets and segments of the process data image (document 01, module 1).
pub mod Unit
pub mod Offset
pub mod Segment
