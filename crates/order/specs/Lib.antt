-- The words for lists under a strict order, and orders made of numbers.
-- Assumes nothing.
pub mod Order
pub mod Ranked
