-- Chains of iterators that search, and chains of tests.
pub mod Chains
pub mod Tests
