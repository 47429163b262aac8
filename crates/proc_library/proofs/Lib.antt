pub mod Cuts
pub mod Entries
