pub mod Classes
pub mod Fronts
