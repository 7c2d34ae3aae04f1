-- The laws of reading: of a number, a key, a field, a table of them, a question; what the reader as a whole keeps to; and examples.
pub mod Numerals
pub mod Keys
pub mod Limited
pub mod OneField
pub mod Tabled
pub mod Questions
pub mod Theorems
pub mod Examples
