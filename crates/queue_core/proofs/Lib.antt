pub mod Numbered
mod Orders
mod Ranking
mod Selecting
