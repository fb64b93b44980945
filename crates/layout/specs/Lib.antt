-- What a script's report and bench mean as bytes.
pub mod Layout
-- what the contracts of inner functions cite
pub mod Parts
