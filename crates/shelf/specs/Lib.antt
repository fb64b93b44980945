-- What the calls for scripts answer, and what they leave in the buffers.
pub mod Calls
