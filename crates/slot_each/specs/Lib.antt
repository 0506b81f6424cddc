-- What is right of many slots at once, slot by slot by the definition of one slot (Each); Inner is no part of it.
pub mod Each
pub mod Inner
