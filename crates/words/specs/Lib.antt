-- Little-endian numbers.
pub mod Words
