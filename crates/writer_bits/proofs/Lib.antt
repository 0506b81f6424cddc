-- Laws of bits written: their number (Numbers), and values put one behind the other (Putting).
pub mod Numbers
pub mod Putting
