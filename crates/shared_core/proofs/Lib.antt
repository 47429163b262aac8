mod WorldKeys
mod Places
mod Written
mod CutSets
mod Entries
mod SeenSets
pub mod Making
mod OwnSets
mod NoEntries
mod Unkept
pub mod Showing
pub mod ShownLists
mod SetTracks
mod Conserving
mod AddingUp
mod OnVolumes
pub mod Following
