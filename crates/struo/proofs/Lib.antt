-- Laws that the proofs of the library's calls cite.
pub mod Ways
