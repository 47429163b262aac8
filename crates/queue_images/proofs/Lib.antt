mod Carried
mod Loaded
mod Numbered
mod Standing
pub mod Stepped
mod Waited
mod Waits
