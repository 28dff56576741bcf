-- What is proved of the definitions of specs/.
pub mod Bounds
pub mod Built
pub mod Larger
pub mod Limits
pub mod Phases
pub mod Walked
