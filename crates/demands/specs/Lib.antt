-- What the customer plans on, as statements: each is a type, and the theorem of that type stands in proofs/.
pub mod Published
pub mod Words
pub mod Second
pub mod Leaving
pub mod Stopping
pub mod Tied
pub mod Third
pub mod Fewer
pub mod Silence
pub mod Room
pub mod Refused
pub mod Bytes
pub mod Parameters
