-- What the numbers of `slot_answers` promise of unprotecting (Unprotect), and demand 3 (Demand), over Annex A.1's encoder in specs/ of
-- `slot_laws` and what protecting promises, in specs/ of `slot_protection`; Inner is no part of what is right of a slot.
pub mod Unprotect
pub mod Demand
pub mod Inner
