pub mod Parts
pub mod Copies
