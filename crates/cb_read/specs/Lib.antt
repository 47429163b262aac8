pub mod Chains
pub mod Kinds
pub mod Ranges
pub mod Reads
pub mod Tests
