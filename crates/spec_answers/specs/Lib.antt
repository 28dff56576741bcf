-- What the answers of the lowering call say.
pub mod Refusals
pub mod Limits
pub mod Nets
pub mod Answers
pub mod Examples
