mod Answered
mod Carried
mod FaultsFound
pub mod Runs
mod Starts
