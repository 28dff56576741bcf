-- What the steps of building give.
pub mod Built
