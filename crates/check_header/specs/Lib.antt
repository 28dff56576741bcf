-- The header and the limits: laws for their checks, and what a passed header tells.
pub mod Header
