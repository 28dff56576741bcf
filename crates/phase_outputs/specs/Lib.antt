-- What connecting one output is.
pub mod Outputs
