-- Ranges and fusion: what the narrowed and fused adders give.
pub mod Rows
pub mod Sound
pub mod Carry
pub mod Fusion
pub mod Cases
