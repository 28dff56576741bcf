-- What the nets of cells stand for.
pub mod Records
pub mod Cells
pub mod Arithmetic
pub mod Comparison
