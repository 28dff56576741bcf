-- The pieces of a record line, and the records that a list is cut into.
pub mod Pieces
pub mod Split
