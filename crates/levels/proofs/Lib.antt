-- What is shown of learning a level and of the level step.
pub mod Across
pub mod Keeping
pub mod Columns
pub mod Rising
