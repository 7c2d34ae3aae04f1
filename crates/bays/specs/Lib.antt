-- Rules on pairs of slots, rule 16, and the certificate that shows it fast.
pub mod Alone
pub mod Bays
pub mod Certificate
