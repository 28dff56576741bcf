-- What the answers of the tables stand for.
pub mod Answers
