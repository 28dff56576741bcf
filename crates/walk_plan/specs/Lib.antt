-- What is lowered before an expression or a range of it, and the laws of the functions that answer it.
pub mod Plan
pub mod Lists
pub mod Kinds
pub mod Fits
