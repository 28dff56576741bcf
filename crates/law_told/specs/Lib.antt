-- What an accepted netlist image tells, and when an image is accepted.
pub mod Told
pub mod Members
pub mod Owned
pub mod Ordered
pub mod If
pub mod Ports
pub mod Walked
pub mod Given
pub mod Behind
