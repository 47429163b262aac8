pub mod ExtentLaws
pub mod Extents
pub mod Maxima
pub mod Sizes
