-- What the lines and the residual bits of a frame are at the end (Finish).
pub mod Finish
