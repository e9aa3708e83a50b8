pub mod Node
pub mod Lists
pub mod Shown
pub mod Edges
pub mod steps
