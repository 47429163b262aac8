pub mod ActsFit
pub mod ActsWithin
pub mod ChangesWithin
pub mod EndsAlike
mod Generations
mod MeaningsAlike
pub mod Others
pub mod PlansFit
mod RequestsAlike
pub mod RunsAlike
pub mod SameReads
pub mod SameWrites
pub mod Taken
pub mod TakesAlike
pub mod TakesFit
mod Wanted
mod Within
mod WordsWithin
