-- What the contracts of the crate `rows` cite.
pub mod Walk
