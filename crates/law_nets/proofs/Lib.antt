-- What is proved of the definitions of specs/.
pub mod Image
pub mod Lists
pub mod Nodes
pub mod Run
