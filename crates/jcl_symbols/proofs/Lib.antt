pub mod Joined
pub mod Lookup
pub mod Walk
pub mod Written
