-- What tasks stand for, what the functions that read operands ask and give.
pub mod AskedRange
pub mod AskedWhole
pub mod Tasks
pub mod Reads
