pub mod Turned
pub mod rows
