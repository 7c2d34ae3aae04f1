-- What acceptance gives, and two maps that are accepted.
pub mod Tree
pub mod Spanning
pub mod Smallest
pub mod Height
pub mod Examples
