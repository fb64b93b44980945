-- what the contracts of inner functions cite
pub mod Learned
