-- The answers of `frame` over the fields of C's struct.
pub mod Frames
