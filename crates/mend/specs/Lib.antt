-- What reading promises, and how much of the input decides what is printed.
pub mod Input
