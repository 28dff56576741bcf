-- An accepted image decodes to a good module.
pub mod Records
