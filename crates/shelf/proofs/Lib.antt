-- What the proofs of several functions cite.
pub mod Sizing
pub mod Fitting
pub mod Mending
pub mod Benches
pub mod Rows
pub mod Telling
