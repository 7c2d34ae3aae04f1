-- Document 01, 'Measures': one axis, all axes, the answer, and the whole root.
pub mod Axis
pub mod Axes
pub mod Answer
pub mod Root
pub mod Within
