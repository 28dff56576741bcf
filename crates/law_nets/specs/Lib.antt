-- The meaning of the netlist that is built.
pub mod Meaning
pub mod Sound
pub mod Run
pub mod Nodes
pub mod Lists
pub mod Image
