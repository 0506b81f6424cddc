-- What is right of a slot: Annex A.1's encoder step by step in the annex's order (Sizes, Semi, Hash, Order, Words, Slot), the places that
-- are counted (Changes), and what a corrected slot is (Corrected). Back is of the code's own steps: from the data in order to request and
-- frame.
pub mod Sizes
pub mod Semi
pub mod Hash
pub mod Order
pub mod Words
pub mod Slot
pub mod Changes
pub mod Corrected
pub mod Back
