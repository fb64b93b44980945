-- What is shown of a row's fill and of the row step.
pub mod Lending
pub mod Stepping
