-- What the walk's calls keep of its invariant, that the model's fuel is enough, and lists of steps that are lowered one by one.
pub mod Sure
pub mod Stores
pub mod Makes
pub mod Fuel
pub mod Steps
