-- What is right of one Reed-Solomon code word: polynomials over the field of 16, validity, and what making and correcting a word leave.
pub mod Polynomial
pub mod Word
pub mod Make
pub mod Correct
-- the check semi-octets as a sum over the data, and the register that their table is made with
pub mod Checks
pub mod Register
-- what the private steps promise each other: no public promise cites these
pub mod Packed
pub mod Corrector
