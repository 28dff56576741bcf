-- What needs what, from the reading rules, without the walk.
pub mod Reads
pub mod Needs
pub mod Closed
pub mod Examples
