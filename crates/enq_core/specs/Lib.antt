pub mod Holds
pub mod Marks
pub mod Order
pub mod Lowest
pub mod Waits
