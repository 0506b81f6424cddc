-- What the code that takes errors off asks: one error.
pub mod Single
