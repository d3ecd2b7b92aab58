-- The bytes of a sync manager that are made up of fields (ETG1000.4 6.7.2).
pub mod Bytes
