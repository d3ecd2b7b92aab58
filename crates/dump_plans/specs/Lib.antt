-- Planning a dump (document 02, 5/13).
pub mod Plans
