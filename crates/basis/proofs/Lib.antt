-- What is shown of words and of their combinations. Other crates cite Packing. Assumes nothing.
pub mod Combined
pub mod Reducing
pub mod Spanned
pub mod Building
pub mod Packing
