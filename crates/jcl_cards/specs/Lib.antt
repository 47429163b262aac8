pub mod Keywords
pub mod JobCards
pub mod ExecCards
pub mod ProcedureCards
pub mod Conditions
pub mod Execs
pub mod Reading
pub mod Examples
