-- What a line of a trace comes to.
pub mod Settings
pub mod Lines
pub mod Bundles
