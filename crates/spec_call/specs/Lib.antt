-- What the lowering call promises.
pub mod Call
