-- What reserving nets for the sources gives.
pub mod Reserves
