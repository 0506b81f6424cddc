-- What the functions of this crate ask of the buffers that they are lent: no part of what is right of a slot.
pub mod Room
