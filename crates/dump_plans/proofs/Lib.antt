-- The theorem of specs/Plans.
pub mod Planned
