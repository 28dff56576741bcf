-- What is proved of the definitions of specs/.
pub mod Calls
pub mod Further
