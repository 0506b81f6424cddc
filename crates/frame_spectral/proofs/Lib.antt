-- What each return of the reading of the spectral data says.
pub mod SpectralSteps
