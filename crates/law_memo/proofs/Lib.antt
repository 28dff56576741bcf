-- What is proved of the definitions of specs/.
pub mod Calls
pub mod Claims
pub mod Induction
pub mod Relowered
