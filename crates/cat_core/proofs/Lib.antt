pub mod Bounds
pub mod Maps
pub mod Members
pub mod AbsentNumbers
pub mod Outcomes
