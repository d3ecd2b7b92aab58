-- Laws that belong to no one function.
pub mod Recorded
pub mod Mailboxes
pub mod Unique
