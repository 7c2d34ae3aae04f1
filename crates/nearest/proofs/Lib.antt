-- The laws that the search leans on.
pub mod Checked
pub mod Measured
pub mod Sought
pub mod Keys
pub mod Keyed
pub mod Page
pub mod Placing
pub mod Offer
pub mod Searching
pub mod Takes
pub mod Visits
pub mod Start
pub mod Listed
