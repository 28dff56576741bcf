-- Both ports of a memory writing one word in a step.
pub mod Words
pub mod Lowest
