-- What is shown of the values beside an answer.
pub mod Values
