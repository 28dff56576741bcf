-- What the answers of the lowering call say.
pub mod Within
pub mod Numbers
pub mod Answered
pub mod Wrong
