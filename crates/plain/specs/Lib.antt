pub mod Drafts
pub mod Lists
pub mod Smalls
pub mod Words
