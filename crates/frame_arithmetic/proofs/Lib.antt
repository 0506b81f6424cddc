-- What each return of the reading of the arithmetic stream says.
pub mod ArithmeticSteps
