pub mod CodeClasses
pub mod Examples
pub mod FaultPlaces
pub mod LaterAbends
pub mod RolledOff
pub mod StepFates
