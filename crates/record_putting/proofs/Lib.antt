-- Laws of bytes put one after the other: pieces of a frame, an entry's trailer, the record's end.
pub mod Parts
