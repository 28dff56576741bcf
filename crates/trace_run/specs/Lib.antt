-- The lines among some bytes, taken one after the other, and calls one after the other while more bytes come.
pub mod Ran
pub mod Held
pub mod Calls
pub mod Bundles
