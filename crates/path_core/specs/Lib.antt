pub mod Endings
pub mod FatesMet
pub mod KeptSets
pub mod Marks
pub mod MarksMet
pub mod Reports
pub mod Starts
pub mod Untested
