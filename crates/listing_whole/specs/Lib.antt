-- The whole text, and how long it is.
pub mod Whole
pub mod Length
