-- Why they hold. The theorems stand in Kept, Calls and Third, and samples that meet the premises in Samples.
pub mod Kept
pub mod Calls
pub mod Third
pub mod Printed
pub mod Sheet
pub mod Samples
