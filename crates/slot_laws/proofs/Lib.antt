-- The laws of a slot, in the order of specs/, and those that several of the slot's crates cite.
pub mod Sizes
pub mod Semi
pub mod Hash
pub mod Order
pub mod Words
pub mod Places
pub mod Slot
pub mod ProtectSteps
pub mod RoomSteps
