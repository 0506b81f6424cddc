-- The bits left, the residual bits and a line's late low bits (Residual), and what the reader's own steps promise each other of them
-- (Sound).
pub mod Residual
pub mod Sound
