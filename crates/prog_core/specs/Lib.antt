pub mod Moves
pub mod RefusalNumbers
pub mod Operations
