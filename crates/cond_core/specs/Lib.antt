pub mod Breaks
pub mod Classes
pub mod Fates
pub mod Laws
