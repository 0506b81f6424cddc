-- What the code that puts words to their places asks.
pub mod PlaceSteps
