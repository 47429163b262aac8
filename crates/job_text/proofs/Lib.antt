pub mod KindsRead
pub mod Members
