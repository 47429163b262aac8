pub mod Chained
pub mod Chains
pub mod Links
pub mod Spots
pub mod Values
