-- The spectral data and what follows them (Spectral), and what the reader's own steps promise each other of them (Sound).
pub mod Spectral
pub mod Sound
