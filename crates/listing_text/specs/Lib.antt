-- Writing into a buffer, and lines.
pub mod Text
