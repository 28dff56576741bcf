-- The opening of a trace.
pub mod Opens
pub mod Begins
pub mod Image
