-- What connecting memories, registers and outputs has in common.
pub mod Ran
pub mod Steps
pub mod Parts
