pub mod Alike
pub mod Changes
pub mod Intervals
