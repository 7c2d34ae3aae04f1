-- The demands hold.
pub mod Whole
pub mod Pages
pub mod Demands
pub mod Examples
pub mod Refuted
