pub mod Printable
pub mod Texts
pub mod PrintLaws
