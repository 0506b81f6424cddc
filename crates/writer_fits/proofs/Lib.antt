-- Laws of what can be written.
pub mod FieldsFit
pub mod EntriesFit
pub mod RunsFit
pub mod LinesFit
