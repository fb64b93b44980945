-- What the contracts of elimination cite.
pub mod Steps
