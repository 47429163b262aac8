pub mod Meets
pub mod PathRuns
pub mod Runners
