-- What moving a record to the other form answers and leaves.
pub mod Moving
