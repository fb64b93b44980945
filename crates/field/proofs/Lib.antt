-- What is shown of the fields. Other crates cite Sum, Ring, Laws, Fields, Lists, Table, Words, Powers and Bytes.
pub mod Sum
pub mod Test
pub mod Ring
pub mod Lists
pub mod Exponents
pub mod Laws
pub mod Fields
pub mod Table
pub mod Summing
pub mod Words
pub mod Powers
pub mod Bytes
