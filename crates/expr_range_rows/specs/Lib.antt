-- What a range's value stands for, and the laws of the rows.
pub mod Rows
