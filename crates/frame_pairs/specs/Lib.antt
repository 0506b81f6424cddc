-- The pairs of a frame (Pairs), and what the reader's own steps promise each other of them (Sound).
pub mod Pairs
pub mod Sound
