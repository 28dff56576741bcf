-- What a need's steps read is what it reads; what the lowering says of needs, accepted or refused.
pub mod Room
pub mod Safe
pub mod Covers
pub mod Complete
pub mod Inside
pub mod Told
