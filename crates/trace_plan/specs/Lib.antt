-- The plan of an accepted netlist, made net by net.
pub mod Building
pub mod Kinds
pub mod Marked
pub mod Cells
pub mod Meeting
