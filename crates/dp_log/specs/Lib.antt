pub mod Changes
pub mod LogText
pub mod Compared
