-- The demands for the lowering call.
pub mod Further
pub mod Calls
pub mod Wrong
