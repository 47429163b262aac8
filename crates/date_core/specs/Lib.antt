pub mod Dates
pub mod Examples
pub mod Written
