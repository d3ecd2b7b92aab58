-- The images of the sync managers.
pub mod Channels
