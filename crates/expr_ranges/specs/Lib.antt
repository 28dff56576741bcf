-- The table of ranges, and the laws of its rows.
pub mod Table
pub mod Steps
