pub mod Nobody
pub mod Writable
