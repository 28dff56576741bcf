-- A builder call made again makes no net and gives the same ones.
pub mod Again
pub mod Added
pub mod Gates
pub mod Cells
