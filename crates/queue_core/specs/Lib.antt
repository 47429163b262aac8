pub mod Queues
pub mod Ranks
