-- From the answer of the frame reader to that of the C face.
pub mod Returns
