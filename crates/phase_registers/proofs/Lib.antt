-- Proofs of connecting registers.
pub mod Laws
