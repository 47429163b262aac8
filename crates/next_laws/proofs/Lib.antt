mod Fronts
mod Keeping
mod Extents
mod Marks
mod Volumes
mod Stores
