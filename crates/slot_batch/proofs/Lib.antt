-- What the code of many slots asks: the frames fit.
pub mod Lengths
