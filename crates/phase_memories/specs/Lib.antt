-- What connecting one memory is.
pub mod Turns
