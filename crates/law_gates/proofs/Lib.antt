-- What is proved of the definitions of specs/.
pub mod Gates
pub mod Many
pub mod Ports
