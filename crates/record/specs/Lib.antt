-- The bytes of a record, and of a room full of them.
pub mod Record
