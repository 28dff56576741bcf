-- A trace's lines, its histories, and the moments that they come to.
pub mod Lines
pub mod States
pub mod Plain
