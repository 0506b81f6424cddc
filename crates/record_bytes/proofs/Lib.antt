-- Laws of the record's bytes: numbers, bytes put, an entry read back, the inverse theorem, and the walk.
pub mod Numbers
pub mod Putting
pub mod Before
pub mod Inverse
pub mod Walking
pub mod Standing
