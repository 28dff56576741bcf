-- Definitions and laws of this crate.
pub mod Start
pub mod Index
pub mod Laws
pub mod Held
pub mod CellLaws
pub mod CellSearch
