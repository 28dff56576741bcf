-- A step on words is the step of the netlist.
pub mod Moves
pub mod Sources
pub mod Registers
pub mod Laid
pub mod Accesses
pub mod Memories
pub mod Bases
pub mod Step
pub mod Inputs
