-- Facts about the text. Assumes nothing.
pub mod Texts
