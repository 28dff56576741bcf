-- The limits on nets and list words are met and nothing else.
pub mod Bounds
pub mod Larger
pub mod Built
pub mod Walked
pub mod Phases
pub mod Limits
