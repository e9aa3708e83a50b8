pub mod Allowed
pub mod LeastCut
pub mod Order
pub mod steps
