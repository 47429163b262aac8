pub mod DdCards
pub mod Merging
pub mod Dds
pub mod DdKeys
pub mod DdFaults
pub mod Beside
pub mod Examples
