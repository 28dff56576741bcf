-- The image, its checks, the netlist image, the step rule, the promise of the lowering call and the listing.
pub mod Image
pub mod Checks
pub mod NetlistImage
pub mod Step
pub mod Promise
pub mod Listing
pub mod Examples
pub mod Clashing
