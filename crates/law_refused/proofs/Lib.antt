-- What is proved of the definitions of specs/.
pub mod Constants
pub mod Lowered
pub mod Phases
