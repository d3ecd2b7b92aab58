-- Which way process data goes, and the exact bits of each sync manager. Read from the top.
pub mod Direction
pub mod Bits
