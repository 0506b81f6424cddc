-- The answers from the walk (Answered), adding an entry (Adding), the record's theorems (Theorems), and that no bytes are records of both
-- forms (Apart).
pub mod Answered
pub mod Adding
pub mod Theorems
pub mod Apart
