-- The values of the nets of an ordered netlist.
pub mod Reads
