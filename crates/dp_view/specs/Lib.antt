pub mod Viewed
pub mod Marked
pub mod Memories
pub mod Kept
pub mod Changed
pub mod Heard
pub mod Following
