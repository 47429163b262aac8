pub mod Cards
pub mod Lines
pub mod Lists
pub mod Names
pub mod Operands
