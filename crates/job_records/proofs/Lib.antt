pub mod Seen
pub mod Placed
pub mod There
pub mod Meant
pub mod Counted
