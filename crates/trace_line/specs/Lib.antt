-- One line of a trace on the tables of a run.
pub mod State
pub mod Step
pub mod Standing
pub mod Text
pub mod Bundles
