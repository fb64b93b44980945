-- By what a buffer of a wrong size is refused.
pub mod Numbers
