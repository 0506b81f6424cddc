-- One step of the loop over the pairs.
pub mod PairWalk
