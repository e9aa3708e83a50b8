pub mod Beginnings
pub mod FirstLemmas
pub mod Greedy
pub mod LimitLemmas
pub mod Optimum
pub mod Weights
pub mod rows
