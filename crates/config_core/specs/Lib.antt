pub mod Configs
pub mod Configured
pub mod Refusals
pub mod Sets
pub mod Starts
pub mod Units
