-- Laws that the proofs of the tables' functions cite.
pub mod Ways
