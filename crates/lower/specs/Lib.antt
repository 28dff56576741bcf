-- What the lowering call answers and leaves.
pub mod Lower
