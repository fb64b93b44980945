-- What systems of equations are, and words as vectors of bits.
pub mod System
pub mod Words
