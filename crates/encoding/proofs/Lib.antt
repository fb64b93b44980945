-- What is shown of data and check places, and of extraction.
pub mod Data
pub mod Placing
pub mod Carrying
