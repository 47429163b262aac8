pub mod CharacterByCharacter
pub mod Collected
pub mod Faultless
pub mod Keys
pub mod SameOperand
pub mod Told
pub mod Calm
