-- What it is to combine words, and to answer which combinations of columns there are.
pub mod Span
-- what the contracts of inner functions cite
pub mod Steps
