-- Laws of the pairs written: a turn of the loop over them (Pairing).
pub mod Pairing
