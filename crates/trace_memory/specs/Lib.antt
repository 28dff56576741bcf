-- Memories over one step, on tables of words.
pub mod Spread
pub mod Ports
