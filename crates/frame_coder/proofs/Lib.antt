-- Laws of decoding a symbol.
pub mod Decoding
