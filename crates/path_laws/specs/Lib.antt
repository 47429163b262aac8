pub mod Deciding
pub mod OneAnswer
pub mod Outcomes
pub mod PathParts
pub mod Paths
pub mod Steps
pub mod ViewLaws
