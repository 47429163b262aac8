pub mod Given
pub mod Joined
pub mod Pieces
pub mod ReadBack
pub mod Titled
