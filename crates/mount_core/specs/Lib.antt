pub mod Codes
pub mod Kept
pub mod Mounts
