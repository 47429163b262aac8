pub mod Joined
pub mod Firsts
