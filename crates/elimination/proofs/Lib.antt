-- What is shown of elimination. Assumes nothing.
pub mod Elimination
pub mod Turns
