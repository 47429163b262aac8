pub mod CommandLines
pub mod Endings
pub mod Examples
