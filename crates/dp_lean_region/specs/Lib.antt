pub mod LeanEpoch
pub mod Region
pub mod Ready
pub mod Judging
pub mod Line
pub mod Laws
pub mod steps
