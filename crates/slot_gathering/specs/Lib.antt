-- What the functions of this crate promise one another and those over them: no part of what is right of a slot.
pub mod Inner
