pub mod Places
pub mod Falls
