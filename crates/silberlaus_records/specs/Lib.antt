-- The answers of `record` and what they mean, over the fields of C's structs.
pub mod Records
