pub mod Carrying
pub mod Images
pub mod Loading
pub mod Waiting
