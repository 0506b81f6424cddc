-- What the code of this crate asks of its table.
pub mod Tabled
