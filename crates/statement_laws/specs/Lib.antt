pub mod Ranges
pub mod CardLaws
pub mod Examples
