-- The expressions that an image stands for, and what a checked image tells of them.
pub mod Exprs
pub mod Listed
