-- What the crate `systems` takes.
pub mod Solve
-- what the contracts of inner functions cite
pub mod Steps
