-- Document 01's small sums, proved.
pub mod Sums
