-- What the cases are made of.
pub mod Symbols
