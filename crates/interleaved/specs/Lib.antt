-- What the crate `interleaved` means.
pub mod Interleaved
-- that it is plan 3's code
pub mod Same
-- what the contracts of inner functions cite
pub mod Asked
