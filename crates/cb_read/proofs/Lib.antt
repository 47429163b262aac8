pub mod Chained
pub mod InRange
pub mod OfKind
pub mod Parts
mod Widths
pub mod Sound
