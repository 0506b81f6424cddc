-- What is right of a frame that is written, in the order of clause 5.3.14: what can be written (Fits), the side stream (SideBits), the
-- arithmetic stream (Stream) with the TNS data (Tns) and the pairs of lines (Pair, Pairs), its end and the frame as one number (Ending),
-- and the whole (Writing).
pub mod Fits
pub mod SideBits
pub mod Stream
pub mod Tns
pub mod Pair
pub mod Pairs
pub mod Ending
pub mod Writing
