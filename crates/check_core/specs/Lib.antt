pub mod Insides
pub mod Reports
pub mod Spots
pub mod Texts
pub mod Warnings
