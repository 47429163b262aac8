mod Changes
mod Groups
mod Keys
pub mod Members
mod Placed
mod StoreLists
