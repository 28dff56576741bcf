-- A step on tables of words: what the code makes of registers, memories and inputs.
pub mod Words
pub mod Chains
