-- What a stripe file is, and what reading and writing one mean.
pub mod File
-- what is shown of a file that is written and read
pub mod Laws
-- what a file was before plan 5, and that the other plans' files are the same
pub mod Before
-- the bench sheet's file
pub mod Example
-- what the contracts of inner functions cite
pub mod Parts
