pub mod Twice
pub mod Answered
pub mod Symbols
pub mod Later
pub mod JobWords
pub mod ExecNames
pub mod Conditions
