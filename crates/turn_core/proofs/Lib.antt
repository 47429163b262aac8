mod FewLines
mod MachineTurns
mod NoSets
mod Passing
mod Performing
mod Places
mod Saying
mod Skipping
pub mod Standing
mod Starting
mod StepEnds
mod Turning
