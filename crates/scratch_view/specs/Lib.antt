-- The scratch as the state of the lowering model, and its laws.
pub mod Rows
pub mod View
pub mod Laws
pub mod Reads
pub mod Drivers
pub mod Copies
pub mod Frame
pub mod Bounds
pub mod Checked
