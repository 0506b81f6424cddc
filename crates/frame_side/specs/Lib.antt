-- The side information (Side), and what the reader's own steps promise each other of it (Sound).
pub mod Side
pub mod Sound
