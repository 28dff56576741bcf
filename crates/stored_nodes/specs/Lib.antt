-- The words of the nodes, and the tree by which equal nodes are found.
pub mod Words
pub mod Paths
pub mod Tree
pub mod Lookup
