-- The room that is lent: no part of what is right of a slot.
pub mod Inner
