-- What the crate `steps` means, in the order in which to read it.
pub mod Steps
pub mod Rounds
-- what the contracts of inner functions cite
pub mod Parts
