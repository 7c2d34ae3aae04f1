-- The laws of rules on pairs of slots, of rule 16, and of its certificate.
pub mod Alone
pub mod Exact
mod Search
pub mod Found
