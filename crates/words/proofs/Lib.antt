-- The laws of numbers as they are read, of stores, of what is read after a store, and of signs.
pub mod Reading
pub mod Stores
pub mod Again
pub mod Signs
