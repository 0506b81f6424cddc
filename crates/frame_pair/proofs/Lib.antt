-- The escapes of a pair and what follows them.
pub mod Escaping
