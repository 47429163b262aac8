pub mod Bridge
pub mod Dates
pub mod Numbered
