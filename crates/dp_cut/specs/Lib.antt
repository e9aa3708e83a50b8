pub mod LeastPlan
pub mod Automatic
