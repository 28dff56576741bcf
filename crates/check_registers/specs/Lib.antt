-- The rules of a register but for its name, and what a record that breaks no rule tells.
pub mod Register
pub mod Good
