-- The laws of the field of 16, for the proofs of this crate and of every layer above it, and what the steps by logarithms ask.
pub mod Products
pub mod Laws
mod Logarithms
