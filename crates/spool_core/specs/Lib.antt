pub mod Rests
pub mod Places
pub mod Sets
