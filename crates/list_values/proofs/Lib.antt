pub mod PlaceByPlace
pub mod References
pub mod Told
