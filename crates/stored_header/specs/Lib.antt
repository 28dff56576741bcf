-- What a header and a length that pass tell.
pub mod Header
