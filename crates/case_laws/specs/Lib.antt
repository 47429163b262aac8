pub mod Cases
pub mod Gains
pub mod Lines
