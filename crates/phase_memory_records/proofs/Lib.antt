-- Laws that the proofs cite.
pub mod Laws
pub mod Lent
