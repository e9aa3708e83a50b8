pub mod ListText
pub mod Refused
pub mod steps
