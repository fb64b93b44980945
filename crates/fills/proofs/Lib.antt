-- What is shown of filling.
pub mod Tests
pub mod Choices
pub mod Marked
pub mod Beside
pub mod Vectors
pub mod Filling
pub mod Weights
pub mod Picked
pub mod Flat
pub mod Spread
