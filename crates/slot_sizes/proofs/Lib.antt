-- What the code of the sizes asks.
pub mod SizeSteps
