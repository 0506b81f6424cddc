-- The answer of the writer over the fields of the C structs (Writing).
pub mod Writing
