-- What is kept.
pub mod Keeps
