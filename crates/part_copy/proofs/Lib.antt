pub mod Adding
pub mod Copied
pub mod EntryCopies
pub mod Held
pub mod Mounts
pub mod Shown
