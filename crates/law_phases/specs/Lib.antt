-- Sources, memories, registers and outputs.
pub mod Supply
pub mod Made
pub mod Drivers
pub mod Sources
pub mod Pushed
pub mod Memories
pub mod Registers
