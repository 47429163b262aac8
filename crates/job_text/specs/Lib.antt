pub mod Places
pub mod Texts
