-- The rule of each kind of expression by a name, and what a record that breaks no rule tells.
pub mod Kinds
pub mod Good
