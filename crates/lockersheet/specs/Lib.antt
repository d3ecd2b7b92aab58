-- What the contracts of `lockersheet` cite.
pub mod Decimal
