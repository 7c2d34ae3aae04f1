-- How large a map's numbers are, and that what was written is what is read.
pub mod Axes
pub mod Small
pub mod Fields
pub mod Own
pub mod Edits
pub mod Again
pub mod Laid
