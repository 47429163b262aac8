pub mod Told
pub mod Warned
