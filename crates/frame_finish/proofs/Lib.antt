-- The late low bits line after line.
pub mod LateLines
