-- What the crate `codewords` means.
pub mod Codeword
-- what the contracts of inner functions cite
pub mod Asked
