-- Proofs of connecting memories.
pub mod Laws
