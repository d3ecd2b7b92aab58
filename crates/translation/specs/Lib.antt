-- What translation through the FMMU bytes means.
pub mod Translate
