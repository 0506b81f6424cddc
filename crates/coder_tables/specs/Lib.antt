-- The arithmetic coder's tables (Tables, made from tables.txt), what a table's row has to be (Rows), and the code's order of the lookups
-- (Layout).
pub mod Tables
pub mod Rows
pub mod Layout
