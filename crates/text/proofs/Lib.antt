-- The laws of the text.
pub mod Laws
pub mod Theorems
