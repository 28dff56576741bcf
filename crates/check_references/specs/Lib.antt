-- Laws of tests beside those of `spec_tests`, and what the shared rules tell where they are kept.
pub mod Tests
pub mod Good
