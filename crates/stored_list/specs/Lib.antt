-- The list's records in turn: their words by sort, and what is known on the way.
pub mod Sorts
pub mod Walking
