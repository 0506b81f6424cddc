-- A filter's order and coefficients (Tns), and what the reader's own steps promise each other of them (Sound).
pub mod Tns
pub mod Sound
