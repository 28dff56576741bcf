-- The builder's calls, one by one.
pub mod Kept
