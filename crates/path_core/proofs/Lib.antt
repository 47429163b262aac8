pub mod Explained
mod Certified
mod Ending
mod Kept
mod Locating
mod Marked
mod Members
mod MetPlaces
mod Passing
mod PathFates
mod SamePaths
mod ShownOutcomes
mod TakesBeside
