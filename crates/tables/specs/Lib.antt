-- What the contracts of the functions of `tables` cite.
pub mod Tables
