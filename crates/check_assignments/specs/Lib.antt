-- The rule of an assignment over its fields, and what a record that breaks no rule tells.
pub mod Assign
pub mod Good
