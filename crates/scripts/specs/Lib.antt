-- What scripts plan on, as statements: each is a type, and the theorem of that type stands in proofs/.
pub mod Kept
pub mod Calls
pub mod Third
pub mod Printed
-- the bench sheet's file
pub mod Sheet
