-- What every form has in common (Sizes), and the ranges as tests and as orders (Ranges).
pub mod Sizes
pub mod Ranges
