pub mod Fits
pub mod CheckpointText
pub mod Refused
pub mod WrittenText
pub mod steps
