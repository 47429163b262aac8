pub mod Beside
pub mod JobTurns
pub mod KeptTracks
pub mod Looks
pub mod RecordsKept
