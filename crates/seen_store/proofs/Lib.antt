pub mod Places
pub mod Names
pub mod Groups
pub mod Seen
