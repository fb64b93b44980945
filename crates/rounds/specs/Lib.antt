-- What the crate `rounds` means.
pub mod Reports
-- what the contracts of inner functions cite
pub mod Ended
