-- What the nets that the builder gives stand for.
pub mod Nodes
pub mod Gates
pub mod Many
pub mod Added
pub mod Sources
pub mod Ports
