-- What is printed of a reply, and what it means to write bytes into a buffer.
pub mod Printed
pub mod Wrote
pub mod Output
