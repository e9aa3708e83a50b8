pub mod Fronts
pub mod Inputs
pub mod Shelves
pub mod Sinks
