-- What the code of this crate asks: the words as received (Arriving), and their data gathered (Gathering).
pub mod Arriving
pub mod Gathering
