-- What each record of an accepted netlist image tells, sort by sort.
pub mod Found
pub mod Cells
pub mod Registers
pub mod Memories
pub mod Cut
pub mod Owners
pub mod Numbers
