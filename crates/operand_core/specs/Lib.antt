pub mod Calm
pub mod Faults
pub mod Keywords
pub mod Operands
pub mod Qualified
pub mod Reading
pub mod Subparameters
pub mod Values
