-- Moments of a run kept by name.
pub mod Copies
pub mod Slots
pub mod Places
pub mod Kept
pub mod Bundles
