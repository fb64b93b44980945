-- What the crate `field` means: the fields, their powers, and the numbers by which our code names them.
pub mod Lists
pub mod Field
pub mod Power
pub mod Ours
