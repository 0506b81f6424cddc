-- The counts of each answer to correcting a word (Answers).
pub mod Answers
