-- What C's struct of an answer tells.
pub mod Told
