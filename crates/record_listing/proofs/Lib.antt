-- Numbers in decimal (Spelling), the lines of a record (Lines), and document 01's example (Examples).
pub mod Spelling
pub mod Lines
pub mod Examples
