pub mod Alike
pub mod Fits
pub mod Keeping
pub mod PartLaws
