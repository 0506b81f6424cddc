-- What reading gives back of what was written (Back).
pub mod Back
