pub mod Told
pub mod Decided
pub mod Verdicts
pub mod Judging
pub mod steps
