pub mod KeepsPart
pub mod Soundness
pub mod Promises
pub mod Waits
