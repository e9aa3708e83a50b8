pub mod PlanText
pub mod WrittenText
