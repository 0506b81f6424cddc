-- What the tests tell as the steps ask it (Asked), both streams up to the last pair (Streaming), and what follows them (Resting, Fitting).
pub mod Asked
pub mod Streaming
pub mod Resting
pub mod Fitting
