-- The lowering by its phases: what its refusals tell, and what is lowered where it is accepted.
pub mod Sources
pub mod Stands
pub mod Starts
pub mod Phases
pub mod Lowered
pub mod Constants
