pub mod Cards
pub mod Deck
pub mod Fields
pub mod RefusalNumbers
pub mod Reading
