-- What the answers of the fusion stand for, and the laws of its functions.
pub mod Fusion
