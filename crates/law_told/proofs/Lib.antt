-- What is proved of the definitions of specs/.
pub mod Given
pub mod Ordered
pub mod Told
pub mod Walked
