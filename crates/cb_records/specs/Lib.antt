pub mod Laws
pub mod Writes
