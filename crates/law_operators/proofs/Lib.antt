-- What is proved of the definitions of specs/.
pub mod Operators
pub mod Shifts
