pub mod Holders
pub mod Meeting
pub mod Rising
pub mod Alone
