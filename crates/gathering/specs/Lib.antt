-- What the crate `gathering` takes and leaves.
pub mod Most
-- what the contracts of inner functions cite
pub mod Steps
