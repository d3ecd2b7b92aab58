-- What the images, the sheet and the texts share, as definitions. Read from the top.
pub mod Lists
pub mod Outcome
pub mod Field
pub mod Number
pub mod Image
pub mod Room
pub mod Text
