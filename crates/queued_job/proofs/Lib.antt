pub mod Entered
pub mod Listed
pub mod Listings
pub mod Overwritten
pub mod Owned
pub mod Selected
pub mod Wanted
