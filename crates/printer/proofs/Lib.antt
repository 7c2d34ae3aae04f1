-- The laws of what is written and printed.
pub mod Writing
pub mod Theorems
pub mod Lines
pub mod Digits
