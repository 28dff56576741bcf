-- The pieces of a net line.
pub mod Pieces
