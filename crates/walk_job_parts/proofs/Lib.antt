-- Laws that the proofs cite.
pub mod Lent
pub mod Bits
pub mod Extends
