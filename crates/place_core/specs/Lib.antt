pub mod Volumes
pub mod Placings
pub mod Keepings
pub mod Vain
