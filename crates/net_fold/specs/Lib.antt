-- Definitions and laws of this crate.
pub mod Digits
pub mod Values
