pub mod Decks
pub mod Places
