-- What is shown of the cases.
pub mod Symbols
