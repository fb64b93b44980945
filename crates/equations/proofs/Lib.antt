-- What is shown of sums of products, of rows in a flat buffer, of wide systems, and of bits.
pub mod Inner
pub mod Rows
pub mod Wide
pub mod Bits
pub mod Wording
pub mod Elements
