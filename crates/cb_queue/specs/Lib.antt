pub mod RecordQueues
pub mod Stored
