-- What the walk adds to a netlist.
pub mod Shape
pub mod Keeps
pub mod Walked
