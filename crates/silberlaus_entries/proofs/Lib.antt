-- An entry's frame read in place.
pub mod Entry
