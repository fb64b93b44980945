-- What mending leaves can be printed. Assumes nothing.
pub mod Printing
