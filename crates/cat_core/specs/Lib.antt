pub mod Catalogs
pub mod Codes
pub mod RefusalNumbers
