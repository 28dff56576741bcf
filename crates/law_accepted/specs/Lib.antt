-- Laws of accepted images: expressions by kind, names, the decoded module's records, that its expressions are well-formed, and sizes.
pub mod Fits
pub mod Name
pub mod Decode
pub mod Formed
pub mod Sized
