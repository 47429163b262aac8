pub mod Compatible
pub mod Parts
pub mod Splitting
