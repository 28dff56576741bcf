-- The tables of a run, made from an accepted netlist.
pub mod Few
pub mod Ready
pub mod Bundles
