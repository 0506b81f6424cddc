-- The shape (Shape), and what the reader's own steps promise each other of it (Sound).
pub mod Shape
pub mod Sound
