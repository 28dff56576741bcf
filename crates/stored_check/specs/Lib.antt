-- The check's answer, how its stages follow one another, and that a longer slice is answered as its first words are.
pub mod Answer
pub mod Stages
pub mod Cut
