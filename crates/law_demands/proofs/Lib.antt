-- What is proved of the definitions of specs/.
pub mod Demands
pub mod Examples
pub mod ReadsLaws
