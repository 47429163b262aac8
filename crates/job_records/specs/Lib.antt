pub mod Fields
pub mod Recorded
pub mod Said
