-- The question's reply: what is told of a bay, the tests in their order, the reply, and the table of answers.
pub mod Told
pub mod Reply
pub mod Table
