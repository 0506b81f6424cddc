-- Document 01's small sums.
pub mod SmallSums
