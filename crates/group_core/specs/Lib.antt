pub mod Entries
pub mod Groups
