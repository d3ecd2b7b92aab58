-- What counting and a call want, in the form that code hands it on; what its code goes by.
pub mod Wanted
pub mod ByKind
pub mod Paths
pub mod Judged
