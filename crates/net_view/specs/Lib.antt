-- Definitions and laws of this crate.
pub mod View
pub mod Records
pub mod Laws
pub mod Formed
