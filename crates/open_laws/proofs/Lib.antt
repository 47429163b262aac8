mod Alike
mod Sameness
mod Walked
