mod Agreement
mod Below
mod Chains
mod Decided
mod Once
mod Spellings
mod Taken
mod Twice
