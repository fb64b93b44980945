-- What is shown of a plan's numbers and tables as the code has them.
pub mod Numbers
