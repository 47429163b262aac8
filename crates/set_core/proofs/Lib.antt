pub mod Ends
pub mod Blanks
