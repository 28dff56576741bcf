-- How long the listing program's text is at most, and how it comes from the lowering call.
pub mod Short
pub mod Program
