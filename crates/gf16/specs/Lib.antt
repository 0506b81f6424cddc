-- What is right of the field of 16.
pub mod Field
