-- What the test of elements asks.
pub mod Tests
