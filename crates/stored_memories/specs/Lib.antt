-- A memory's record: its words, and those of its ports.
pub mod Ports
pub mod Memory
