pub mod Below
pub mod Dds
pub mod Faults
pub mod Follows
pub mod Jobs
pub mod Marks
pub mod Steps
pub mod Used
