pub mod Each
pub mod PlanLaws
pub mod Writing
pub mod Examples
