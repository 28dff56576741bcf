-- Names in a trace: their letters, their numbers and the search for one.
pub mod Letters
pub mod Numbers
pub mod Searched
