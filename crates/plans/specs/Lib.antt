-- What the crate `plans` means, in the order in which to read it.
pub mod Plan
pub mod Rooms
pub mod Answers
pub mod Refusal
-- what the contracts of inner functions cite
pub mod Tables
