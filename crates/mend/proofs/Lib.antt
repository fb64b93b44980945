-- What is read is enough. Assumes nothing.
pub mod Input
