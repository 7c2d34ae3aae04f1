-- What `nearby` says.
pub mod Text
