-- The laws of the measures, by subject.
pub mod Every
pub mod Range
mod Answers
pub mod Nearest
pub mod Theorems
