-- Laws of one pair written: magnitudes, signs, and a turn of the escapes (Walking).
pub mod Walking
