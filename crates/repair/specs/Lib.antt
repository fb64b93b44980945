-- What the crate `repair` means beyond the crates below it, in the order in which to read it.
pub mod Mending
pub mod Encoding
-- the bench sheet's cases
pub mod Sheet
