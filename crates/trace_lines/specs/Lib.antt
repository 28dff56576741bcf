-- The lines of a trace as its bytes come.
pub mod Pieces
pub mod Answers
pub mod Bundles
