-- What the locator's code asks: each case of the minors.
pub mod Levels
