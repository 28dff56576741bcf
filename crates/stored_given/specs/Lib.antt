-- What the given record tells.
pub mod Records
