-- One word for each expression bit (request Q-10): what was lowered is lowered again to the same nets, and nothing is made. `Memo` has the
-- claim, `Calls` shows it of every image that the checks pass.
pub mod Memo
pub mod Along
pub mod Repeated
pub mod Derived
pub mod Later
pub mod Reads
pub mod Built
pub mod Kinds
pub mod Steady
pub mod Walked
pub mod Nothing
pub mod Relowered
pub mod Induction
pub mod Forgot
pub mod Reached
pub mod Claims
pub mod Passed
pub mod Examples
