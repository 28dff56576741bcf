-- What is proved of the definitions of specs/.
pub mod Fits
pub mod Further
pub mod MemoryWords
pub mod RecordWords
