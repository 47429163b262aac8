pub mod Denoted
pub mod Exact
pub mod faultless
