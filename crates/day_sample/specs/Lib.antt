-- What the sample's frames and the slots chosen for them are promised to be.
pub mod Air
pub mod Sample
