-- What each function of the session record answers (Answers), and what that means for the entries (Meaning).
pub mod Answers
pub mod Meaning
