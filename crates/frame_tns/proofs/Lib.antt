-- One step of the loop over the coefficients.
pub mod CoefficientSteps
