pub mod ListLemmas
pub mod LoopLemmas
pub mod ResultLemmas
