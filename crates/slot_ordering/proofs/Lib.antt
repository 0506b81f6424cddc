-- What the code that puts the data in order asks.
pub mod OrderSteps
