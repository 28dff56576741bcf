-- The steps in which the scratch is laid out.
pub mod Stages
