-- What each answer says (Answers).
pub mod Answers
