-- What is proved of the definitions of specs/.
pub mod Ranks
pub mod Spent
pub mod Walked
