-- What the numbers of `refusals` promise of protecting.
pub mod Protect
