-- What the walk of the lowering keeps.
pub mod Tables
pub mod Good
pub mod Kept
pub mod Writes
pub mod Reads
pub mod Gates
pub mod Wholes
pub mod Parts
pub mod Walk
