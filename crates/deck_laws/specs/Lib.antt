pub mod Sound
pub mod DeckLaws
pub mod Examples
