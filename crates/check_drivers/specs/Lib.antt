-- Driven bits as a table, and what a signal without a driver tells.
pub mod Bits
pub mod Good
