-- Which bytes a list of entries is (Layout), reading them from the end back (Reading), where an entry stands (Located), what the steps
-- answer (Steps), and the numbers and values of answers (Answers).
pub mod Layout
pub mod Reading
pub mod Located
pub mod Steps
pub mod Answers
