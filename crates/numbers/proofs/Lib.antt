-- The ground laws, by subject.
pub mod Tests
pub mod Sizes
pub mod Order
pub mod Signed
pub mod Squares
pub mod Shifted
pub mod Below
pub mod Ranges
pub mod Exactly
pub mod Counting
pub mod Bits
pub mod Arrays
pub mod Tried
