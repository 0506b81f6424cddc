-- The number and values of what unprotecting a slot answers.
pub mod Answers
