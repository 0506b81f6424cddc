-- The rule for unprotecting, demand 3, the bounds of what is accepted, and what the code asks at its returns.
pub mod Rule
pub mod Demand
pub mod Bounds
pub mod UnprotectSteps
