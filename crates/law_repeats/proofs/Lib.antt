-- What is proved of the definitions of specs/.
pub mod Added
pub mod Cells
pub mod Gates
pub mod Operators
pub mod Trees
