pub mod Division
pub mod rows
