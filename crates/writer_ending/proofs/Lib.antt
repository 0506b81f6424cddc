-- The end of the stream in code (Finishing), and the bytes of both streams joined (Joining).
pub mod Finishing
pub mod Joining
