pub mod Codes
pub mod Entries
pub mod Extents
pub mod RefusalNumbers
pub mod Searches
pub mod Volumes
