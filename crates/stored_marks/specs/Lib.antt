-- A record's own nets as stretches of its words; marks and counts with one record more.
pub mod Runs
pub mod Fit
pub mod Keep
