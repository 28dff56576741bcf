-- Names of records and their hashes; the first of two rules that is broken.
pub mod Names
pub mod Earlier
