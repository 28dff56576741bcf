-- Laws of words and of their operators, with the width a parameter.
pub mod Runs
pub mod Values
pub mod Signed
pub mod Examples
pub mod Add
pub mod Ripple
pub mod Shift
pub mod Tree
pub mod Slices
pub mod Widths
