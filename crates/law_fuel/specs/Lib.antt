-- The lowering's fuel is enough: it never answers the number that stands for none left.
pub mod Ranks
pub mod Marks
pub mod Walked
pub mod Spent
