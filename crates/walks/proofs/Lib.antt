-- What is shown of the rows of a round.
pub mod Settled
pub mod Checks
pub mod Walking
-- marks beyond all rows' sums
pub mod Over
