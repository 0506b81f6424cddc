-- Reading steps and their chain (Read), bits of the side stream (Bits), lists of fields in both directions (Fields), and what the reader's
-- own steps promise each other of them (Sound).
pub mod Read
pub mod Bits
pub mod Fields
pub mod Sound
