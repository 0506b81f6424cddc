-- What each return of the whole reader says.
pub mod WholeFrame
