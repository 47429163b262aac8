pub mod Conditions
pub mod ControlBlocks
pub mod Examples
pub mod Found
