pub mod Printable
pub mod Lines
pub mod LineLaws
