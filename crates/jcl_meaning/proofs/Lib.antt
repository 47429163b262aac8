pub mod Budgets
mod HeldNames
pub mod LineCounts
pub mod SortedNames
mod Firsts
pub mod InOrder
