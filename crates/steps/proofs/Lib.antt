-- What is shown of start and of the steps, for the code of both steps and for the demands.
pub mod Sums
pub mod Levels
pub mod Fit
pub mod Passing
pub mod Sound
pub mod Unmarked
pub mod Turns
pub mod Ends
pub mod Answers
