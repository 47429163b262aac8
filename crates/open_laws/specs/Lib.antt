pub mod Reading
pub mod Open
