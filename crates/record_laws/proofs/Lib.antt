pub mod Blanks
pub mod Chains
pub mod Owners
pub mod Sets
pub mod Words
