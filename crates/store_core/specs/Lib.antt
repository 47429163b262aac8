pub mod Actions
pub mod Entered
pub mod EnteredNumbers
pub mod Expiries
pub mod Places
