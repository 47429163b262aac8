pub mod Lines
pub mod Libraries
pub mod Entries
