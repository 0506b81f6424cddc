-- The numbers of refusals and of causes (Numbers).
pub mod Numbers
