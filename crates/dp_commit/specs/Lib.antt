pub mod CommittedState
pub mod Counted
