-- A register's records.
pub mod Registers
pub mod Resets
