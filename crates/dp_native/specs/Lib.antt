pub mod Reaches
pub mod Element
