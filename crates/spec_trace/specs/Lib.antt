-- The trace program: the netlist at the front of its input, and its text.
pub mod Opened
pub mod Trace
pub mod Named
pub mod Examples
