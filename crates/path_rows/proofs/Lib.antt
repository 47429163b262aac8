pub mod Formed
mod Volumes
