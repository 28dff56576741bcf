-- What is proved of the definitions of specs/.
pub mod Exported
pub mod Rows
pub mod Table
