-- Definitions of this crate.
pub mod Steps
