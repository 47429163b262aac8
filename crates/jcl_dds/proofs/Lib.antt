pub mod DdWords
pub mod WordCards
pub mod Beside
pub mod DdKeywords
pub mod DdKeys
pub mod Absent
pub mod Put
