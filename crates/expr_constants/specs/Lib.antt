-- The words of a constant.
pub mod Constants
