-- Definitions and laws of this crate.
pub mod Runs
