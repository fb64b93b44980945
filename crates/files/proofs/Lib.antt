-- Facts about stripe files. Assumes nothing.
pub mod Stripes
pub mod Files
pub mod Laws
pub mod Before
pub mod Samples
