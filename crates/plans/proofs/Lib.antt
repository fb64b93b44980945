-- What is shown of plans by their numbers, of what their tables hold, and of the refusals.
-- what is known of a plan, by its kinds of checks; plans by their numbers
pub mod Flat
pub mod Binary
pub mod Columns
pub mod Known
pub mod BinaryPlan
pub mod Plan1
pub mod Plan2
pub mod Plan3
pub mod Plan4
pub mod Plan5
pub mod Plans
-- the code's facts and tables of a plan
pub mod Padded
pub mod Tables
pub mod Sizes
pub mod Rooms
-- what the proofs of the code and of the demands rest on
pub mod Rows
pub mod Cut
pub mod Chunks
-- which checks and weights leave no target unmet
pub mod Spread
-- what is refused, and what is copied
pub mod Scan
pub mod Refusals
pub mod Copying
-- sums under checks
pub mod Parts
pub mod Summing
pub mod Lossy
-- the definitions on samples
pub mod Samples
