-- What the proofs of the functions cite.
pub mod Bytes
pub mod Benches
