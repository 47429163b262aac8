pub mod Elements
pub mod Pictures
pub mod Reading
pub mod Writing
