-- Definitions over numbers that other crates' definitions are made of.
pub mod Below
pub mod Exactly
pub mod Tried
