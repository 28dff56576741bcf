-- What the walk's calls give.
pub mod Walk
