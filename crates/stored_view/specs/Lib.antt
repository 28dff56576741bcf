-- What is known of a netlist image on the way through its checks; a search over a stretch of words; a table that is cleared.
pub mod Opened
pub mod Own
pub mod Scan
pub mod Found
pub mod Clear
