-- Laws that the proofs of the call's functions cite.
pub mod Start
pub mod Stages
pub mod Ends
