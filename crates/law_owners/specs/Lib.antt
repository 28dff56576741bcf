-- Whose the nodes and port records of a lowered netlist are.
pub mod Ends
pub mod Kept
pub mod Walked
pub mod Owners
