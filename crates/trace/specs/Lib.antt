-- What the trace program's turns leave.
pub mod Turn
pub mod Bundles
