-- Proofs of connecting outputs.
pub mod Laws
