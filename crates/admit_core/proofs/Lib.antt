mod Apart
mod Answering
mod Refused
pub mod Telling
