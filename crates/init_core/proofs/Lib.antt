pub mod Admitting
pub mod Advancing
mod Covering
pub mod Reading
pub mod Rooms
mod Serials
pub mod Turning
pub mod Volumes
pub mod Wanting
