-- The rules of an accepted map, each in a file of its own, and the verdict. Rule 16 stands in `bays`.
pub mod Header
pub mod Spans
pub mod Form
pub mod Fill
pub mod Links
pub mod Boxes
pub mod Verdicts
pub mod Leaning
