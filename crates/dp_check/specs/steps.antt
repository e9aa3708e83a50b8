pub mod Evaluation
pub mod Growing
