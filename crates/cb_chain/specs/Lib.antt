pub mod Composed
pub mod Entries
pub mod Taking
pub mod Written
