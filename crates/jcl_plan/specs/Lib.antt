pub mod Lines
pub mod RefusalNumbers
pub mod Texts
pub mod Tracks
