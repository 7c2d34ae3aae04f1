-- The badge, and the order of bays.
pub mod Badge
pub mod Mark
