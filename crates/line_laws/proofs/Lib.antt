mod Abends
mod Alone
mod Assured
mod Bytes
mod CancelLines
mod Cuts
mod Fours
mod JobLines
mod Numbers
pub mod Printables
mod Standing
mod WholeLines
mod Words
