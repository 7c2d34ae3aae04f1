-- The table of figures, settled.
pub mod Settled
