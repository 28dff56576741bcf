-- What the nets of a lowered operator stand for.
pub mod Trees
pub mod Shifts
pub mod Operators
