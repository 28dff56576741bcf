-- The trace program's text for an input in memory.
pub mod Begins
pub mod Input
