pub mod Given
pub mod Giving
pub mod Texts
pub mod Searching
pub mod Playing
