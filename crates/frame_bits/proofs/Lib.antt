-- Laws of the bits of the side stream.
pub mod SideBits
pub mod FieldLists
