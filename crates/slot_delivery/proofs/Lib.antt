-- What the code that compares the heading and writes the frame asks.
pub mod HeadingSteps
