-- Words put into a record, and a memory's.
pub mod Puts
pub mod Memories
pub mod Second
