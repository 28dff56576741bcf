-- When a text stands in a buffer, and when there is room for it.
pub mod Written
