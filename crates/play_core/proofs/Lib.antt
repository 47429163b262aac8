pub mod Adding
pub mod Behind
pub mod Endings
pub mod Finding
