-- What the crate `encoding` means.
pub mod Data
-- what the contracts of inner functions cite
pub mod Asked
