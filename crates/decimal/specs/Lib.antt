-- The decimal of a number.
pub mod Decimal
