-- The lines of a record's listing, and what `list` answers.
pub mod Listing
