-- Classes of operators.
pub mod Class
