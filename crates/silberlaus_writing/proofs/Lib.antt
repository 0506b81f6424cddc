-- From the answer of the writer to that of the C face (Told).
pub mod Told
