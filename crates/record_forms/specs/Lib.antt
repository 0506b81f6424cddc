-- The numbers of each form of a record (Forms), and the ranges of an entry's fields (Ranges).
pub mod Forms
pub mod Ranges
