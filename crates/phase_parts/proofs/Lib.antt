-- Proofs of the parts.
pub mod Laws
