-- What is shown of rounds.
pub mod Leaving
pub mod Rounding
