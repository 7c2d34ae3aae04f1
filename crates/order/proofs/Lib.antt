-- The laws of lists under a strict order, by subject: one element, those that pass a test, the first k, the whole sort,
-- what comes after, the turn in which elements come, parts in any turn, and insertion in place. Assumes nothing.
pub mod Place
pub mod Only
pub mod Parts
pub mod Kept
pub mod Sorting
pub mod After
pub mod Swap
pub mod Visits
pub mod Turns
pub mod Hole
pub mod Mapped
pub mod Ranked
