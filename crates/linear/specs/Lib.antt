-- What the crate `linear` takes and answers.
pub mod Answer
-- what the contracts of inner functions cite
pub mod Steps
