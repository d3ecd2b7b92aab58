-- Demand 3 as a theorem of `configure_fmmus`, `translate` and `count`. Read `Calls`.
pub mod Calls
