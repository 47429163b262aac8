pub mod CharacterTests
pub mod Names
pub mod Components
pub mod Suffixes
pub mod Decimals
