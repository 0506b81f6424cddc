-- The theory of one code word, and the laws that several crates cite.

-- words and their distance
pub mod Changes
pub mod Places
pub mod Distance
pub mod Division
pub mod Coded
-- making a word
pub mod Register
pub mod Encoding
pub mod Checks
-- correcting words
pub mod Packed
pub mod Transform
pub mod Locator
pub mod Correcting
pub mod Turns
