-- What is shown of the codeword test.
pub mod Walk
pub mod Totals
pub mod Holding
pub mod Verdicts
