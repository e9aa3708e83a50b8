pub mod RunText
pub mod Prepared
pub mod Given
pub mod Regions
pub mod Stretches
pub mod steps
