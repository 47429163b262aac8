pub mod Events
pub mod Released
pub mod Shown
