-- The laws of a record's bytes, of a room that is filled record by record, and of what is read out of it.
pub mod Bytes
pub mod Filling
pub mod Reading
