-- What connecting one register is.
pub mod Turns
