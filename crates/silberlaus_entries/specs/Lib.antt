-- What reading an entry of a record answers.
pub mod Entries
