-- Needs, and what is left of them.
pub mod Needs
pub mod Left
