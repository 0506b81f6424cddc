-- What the loop over the slots asks (EachSteps), and what follows from the promise of a batch (Determined).
pub mod EachSteps
pub mod Determined
