-- Records read back from their words, and found in a list.
pub mod Back
pub mod Find
