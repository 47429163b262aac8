pub mod Latest
pub mod Earlier
pub mod Numbering
pub mod TestLists
pub mod Placed
pub mod Left
pub mod Counts
pub mod StepLists
pub mod PlannedDds
pub mod Asked
pub mod Counted
pub mod Early
mod NamedPlaces
mod WaitingDds
