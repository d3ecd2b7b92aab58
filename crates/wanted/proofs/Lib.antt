-- Laws that belong to no one function.
pub mod Managers
pub mod Apart
pub mod Sums
pub mod Sized
pub mod Asking
pub mod Surveying
pub mod Judging
pub mod Answered
pub mod Sizing
pub mod Wanting
pub mod Unique
