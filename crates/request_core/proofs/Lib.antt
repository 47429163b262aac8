pub mod Asking
pub mod Reading
mod PutSets
