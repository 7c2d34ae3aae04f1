-- Fields of a text, a question's text and what reading a text gives; and, for the proofs of the code, how it is read.
pub mod Fields
pub mod Scan
pub mod Chain
pub mod QuestionText
