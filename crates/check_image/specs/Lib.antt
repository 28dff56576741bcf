-- The whole check of an image.
pub mod Checked
pub mod Accepted
