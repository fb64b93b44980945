-- What is printed for any bytes.
pub mod Text
-- what the contracts of inner functions cite
pub mod Parts
