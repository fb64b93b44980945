-- What is shown of the definitions: cases and samples; and of mending and encoding.
pub mod Sheet
pub mod Samples
pub mod Ending
pub mod Encoding
