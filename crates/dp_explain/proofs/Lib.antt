pub mod ExplainedOnce
pub mod rows
