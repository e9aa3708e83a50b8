pub mod Carried
pub mod Runs
pub mod Status
pub mod Given
pub mod Listed
pub mod Saved
