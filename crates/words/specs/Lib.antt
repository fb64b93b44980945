-- What numbers are as bytes.
pub mod Words
-- what the contracts of inner functions cite
pub mod Written
