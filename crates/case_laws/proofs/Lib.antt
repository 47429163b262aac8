mod Firsts
mod Blocks
mod Queues
mod Spools
mod Placing
mod Unmade
mod Sums
mod Freed
mod Finding
mod Turning
mod Events
mod Gained
mod Gaining
mod Turned
pub mod Known
pub mod Fairness
mod TouchedKeys
mod Sights
mod Keeping
pub mod KeptAlone
mod Spending
mod Advancing
mod Cases
mod Ordered
mod Making
mod StillKept
mod TakesMade
mod FreeSteps
mod Paths
mod Going
mod Spooled
mod Supplies
mod Needed
mod Granted
mod SameTurns
mod TurnLines
mod Lines
mod Along
