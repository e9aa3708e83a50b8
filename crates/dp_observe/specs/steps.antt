pub mod Columns
pub mod Frames
pub mod Counting
pub mod Owners
pub mod Starting
pub mod Taken
pub mod Tracking
pub mod Running
