pub mod Spools
pub mod Limits
