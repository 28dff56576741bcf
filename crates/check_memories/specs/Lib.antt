-- The rules of a memory but for its name, port by port, and what a record that breaks no rule tells.
pub mod Memory
pub mod Good
