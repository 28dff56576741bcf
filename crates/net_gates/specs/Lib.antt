-- Definitions and laws of this crate.
pub mod Pairs
pub mod Nots
pub mod Turns
