-- Laws that the proofs cite.
pub mod Lefts
pub mod Keeps
