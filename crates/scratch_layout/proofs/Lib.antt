-- Laws that the proofs of the layout's functions cite.
pub mod Ways
