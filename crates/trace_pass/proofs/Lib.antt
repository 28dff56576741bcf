-- What is proved of the definitions of specs/.
pub mod Gates
pub mod Steps
