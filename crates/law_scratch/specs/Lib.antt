-- The call beside the one that asked for the former, larger scratch.
pub mod Scratch
