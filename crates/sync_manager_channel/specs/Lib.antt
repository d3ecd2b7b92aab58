-- The sync manager channel: its image (ETG1000.4 6.7.2) and its text.
pub mod Image
pub mod Text
