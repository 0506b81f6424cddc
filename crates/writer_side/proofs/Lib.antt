-- Laws of the side information written (Fields).
pub mod Fields
