-- The laws of decimals.
pub mod Laws
