pub mod Acting
pub mod Choices
pub mod Courses
pub mod Entering
pub mod Grants
pub mod Takings
