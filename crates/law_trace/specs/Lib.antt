-- The trace program's text against the runs of netlists and of lowered modules.
pub mod Runs
pub mod Shown
pub mod Printed
pub mod Cut
pub mod Signals
pub mod Order
pub mod Terms
pub mod Modules
pub mod Rows
pub mod Memories
pub mod Clocks
pub mod Fitted
pub mod Unfit
pub mod Bytes
pub mod Programs
pub mod Sides
pub mod Clear
