-- Symbols of the arithmetic stream (Symbol), and what the reader's own steps promise each other of its cursor (Sound).
pub mod Symbol
pub mod Sound
