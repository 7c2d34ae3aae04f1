-- The laws of the reply.
pub mod Answers
pub mod Replies
pub mod Filling
pub mod Fitting
pub mod Theorems
