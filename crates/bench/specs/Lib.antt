-- The bench cases as one table about every call that keeps the lowering call's promise, and cases beside them.
pub mod Images
pub mod Row
pub mod Carried
pub mod Computing
pub mod Rows
pub mod Table
pub mod Exported
pub mod Cases
pub mod Bits
