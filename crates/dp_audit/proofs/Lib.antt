mod CopyLemmas
mod ListedChanges
mod StoreLemmas
pub mod IterationMade
mod RunnerLemmas
mod GroupLemmas
mod CleanLemmas
mod NextLemmas
