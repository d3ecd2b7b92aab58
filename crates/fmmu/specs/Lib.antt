-- The FMMU entry: its image (ETG1000.4 Table 56) and its text.
pub mod Image
pub mod Text
