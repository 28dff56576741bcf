-- The state of the walk in its lent words, what the walk's calls give, what is lowered already; laws of answers, of stores into the
-- tables, of phases one after another and in a loop.
pub mod Image
pub mod Met
pub mod View
pub mod Answers
pub mod Stores
pub mod Phases
pub mod Turns
pub mod Refusals
