pub mod Statuses
pub mod Settling
pub mod Steps
pub mod AllRan
pub mod Exchanged
pub mod SentOn
pub mod Over
pub mod Passing
mod Working
