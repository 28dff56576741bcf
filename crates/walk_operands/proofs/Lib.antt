-- Laws that the proofs of this crate cite.
pub mod RangeWays
pub mod ByKind
pub mod WholeWays
pub mod Ways
