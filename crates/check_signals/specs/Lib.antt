-- The rules of signal records.
pub mod Signals
