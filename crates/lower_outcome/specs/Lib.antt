-- What a call answers.
pub mod Answer
