pub mod ReachLemmas
pub mod MachineLemmas
