pub mod Cuts
pub mod Scales
pub mod Places
