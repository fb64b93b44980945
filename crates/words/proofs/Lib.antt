-- What is shown of buffers that are written, and of words as bytes. Assumes nothing.
pub mod Stores
pub mod Writing
pub mod Bytes
