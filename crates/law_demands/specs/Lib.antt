-- Demands 2 and 3 of a lowering.
pub mod Reads
pub mod Demands
pub mod Clashes
pub mod Examples
