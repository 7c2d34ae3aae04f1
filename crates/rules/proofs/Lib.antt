-- The laws of the rules.
pub mod Linked
pub mod Spans
pub mod Exact
pub mod Verdicts
pub mod Length
pub mod Hull
pub mod Filled
mod Counts
