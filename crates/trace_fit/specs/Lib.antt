-- Refusal 12 after 11, as it is read at the places of the records.
pub mod Fit
