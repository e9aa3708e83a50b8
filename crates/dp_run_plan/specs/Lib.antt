pub mod RunPlan
pub mod Others
