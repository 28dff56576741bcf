-- Bytes as words, the image that begins with them, its end and its judgement, and the program's text by that judgement.
pub mod Words
pub mod Answer
pub mod Headed
pub mod Whole
pub mod Program
