pub mod Cards
pub mod Checking
pub mod Answers
pub mod Reading
pub mod Telling
pub mod Words
pub mod Brief
pub mod Above
