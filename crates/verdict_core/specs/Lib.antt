pub mod Judging
pub mod Known
