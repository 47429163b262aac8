pub mod JobLens
pub mod Conserved
pub mod Following
