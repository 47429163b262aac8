pub mod RefusalNumbers
pub mod Characters
pub mod Faults
pub mod Grammar
pub mod Generations
pub mod Decimals
