-- Fields of records.
pub mod Fields
