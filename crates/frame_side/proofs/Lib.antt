-- The side information behind each of its parts.
pub mod SideFields
