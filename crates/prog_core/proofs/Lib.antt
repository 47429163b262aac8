pub mod MoveLemmas
pub mod OperationLemmas
