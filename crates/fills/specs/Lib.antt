-- What it is to fill the marked places of a vector.
pub mod Lists
pub mod Fill
pub mod Marks
