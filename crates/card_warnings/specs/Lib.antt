pub mod Keywords
pub mod Warnings
