-- The words in which rules are written, and their laws.
pub mod Rules
pub mod Laws
pub mod Options
pub mod Any
