-- What the records of the image are as values of the code.
pub mod OpClass
pub mod Expr
pub mod Others
