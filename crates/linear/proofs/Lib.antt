-- What is shown of the answers of `fill`.
pub mod Answers
pub mod Gathering
pub mod Rooms
