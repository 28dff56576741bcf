-- What is proved of the definitions of specs/.
pub mod Made
pub mod Memories
pub mod Outputs
pub mod Registers
pub mod Sources
