-- Laws of the stream written.
pub mod Carrying
pub mod Shifting
pub mod Placing
