-- The places of a netlist's records, and the walk that finds them.
pub mod Places
pub mod Walking
