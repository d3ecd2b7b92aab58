-- When translating through the FMMU bytes and counting through the sync managers agree (demand 3). Read `Agreement` first, then `Clean`, of the default, and `Paired`, of pairs.
pub mod Agreement
pub mod Clean
pub mod Paired
pub mod Bench
pub mod Cases
