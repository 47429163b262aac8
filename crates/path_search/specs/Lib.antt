pub mod Crossings
pub mod Makings
pub mod PathLaws
pub mod Puts
pub mod Reached
pub mod Stops
pub mod Trails
pub mod Verdicts
