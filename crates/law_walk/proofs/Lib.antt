-- What is proved of the definitions of specs/.
pub mod Parts
pub mod ReadsLaws
pub mod Walk
pub mod Wholes
