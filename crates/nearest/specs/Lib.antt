-- What a badge is shown, the page, the best list, and what a search makes of it.
pub mod Shown
pub mod Asked
pub mod Reach
pub mod Best
pub mod Ground
pub mod Searched
pub mod Needed
pub mod Sought
