pub mod Decided
pub mod Named
