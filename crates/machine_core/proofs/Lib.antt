pub mod Devices
pub mod Releasing
pub mod Unnamed
mod Volumes
pub mod Writers
