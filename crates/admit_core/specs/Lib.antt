pub mod Admissions
pub mod Told
pub mod Admitted
