-- What is lowered is accepted: the invariant, and acceptance from it.
pub mod Listed
pub mod Parts
pub mod Whose
pub mod NodeWords
pub mod RecordWords
pub mod MemoryWords
pub mod Further
