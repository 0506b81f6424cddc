-- What the corrector's code asks: word after word.
pub mod Batch
