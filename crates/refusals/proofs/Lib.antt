-- What the proofs of the tests rest on.
pub mod Fits
