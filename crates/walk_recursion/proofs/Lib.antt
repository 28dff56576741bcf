-- Laws that the proofs of the walk cite.
pub mod Steps
pub mod Ways
