-- Each way to the outcome (Outcomes).
pub mod Outcomes
