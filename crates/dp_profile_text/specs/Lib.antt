pub mod ProfileText
pub mod Refused
pub mod WrittenText
pub mod steps
