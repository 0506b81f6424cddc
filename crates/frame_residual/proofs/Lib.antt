-- The bits left and the residual bits, and a line's late low bits.
pub mod BitsLeft
pub mod LateBits
