-- What the exports give.
pub mod Station
