pub mod Agreeing
pub mod Ended
