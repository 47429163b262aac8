pub mod Substitutions
pub mod Examples
pub mod Writing
