-- The laws of the exports.
pub mod Small
pub mod Measures
