pub mod Decks
pub mod Lasts
pub mod Named
pub mod Taken
