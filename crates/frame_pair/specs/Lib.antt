-- One pair of lines (Pair), and what the reader's own steps promise each other of it (Sound).
pub mod Pair
pub mod Sound
