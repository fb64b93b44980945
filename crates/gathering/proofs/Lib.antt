-- What is shown of the steps around the solvers.
pub mod Words
pub mod Columns
