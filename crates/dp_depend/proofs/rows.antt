pub mod Programs
pub mod Graphs
pub mod Choices
