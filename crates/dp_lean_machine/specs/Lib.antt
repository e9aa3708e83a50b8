pub mod Held
pub mod Sent
pub mod Fresh
pub mod Standing
pub mod Kept
pub mod Within
pub mod Settled
pub mod RanFrom
