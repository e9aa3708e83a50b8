pub mod Moved
pub mod Leaves
pub mod Walked
pub mod Looked
pub mod Silenced
pub mod Accesses
pub mod Needs
pub mod Runs
