pub mod PlanText
pub mod Refused
pub mod WrittenText
pub mod steps
