-- What the library's calls leave.
pub mod Answers
