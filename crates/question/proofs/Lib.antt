-- The laws of the order of bays, and of who may ask.
pub mod Badges
pub mod Before
