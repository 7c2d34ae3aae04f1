-- The bytes of a floor map, what they say, and how they are written.
pub mod Layout
pub mod View
pub mod Seen
pub mod Written
pub mod Edits
