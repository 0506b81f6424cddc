-- Each way through the writing of a filter.
pub mod TnsSteps
