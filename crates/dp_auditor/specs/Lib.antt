pub mod Answered
pub mod Comparing
pub mod Gathered
pub mod Regions
pub mod Walking
pub mod Ending
pub mod Turned
