-- Laws of what is written: bounds of the arithmetic stream (Streams), its end (Ends), the bytes of a number and the number of bits
-- (Digits), escapes and pairs one at a time (Levels), both streams part by part (Parts), the side information part by part (SideParts),
-- and what the tests tell of what is given (Given).
pub mod Digits
pub mod Ends
pub mod Levels
pub mod Streams
pub mod Parts
pub mod SideParts
pub mod Given
